pub mod Firsts
pub mod Legal
pub mod Mix
pub mod Placing
pub mod Rules
