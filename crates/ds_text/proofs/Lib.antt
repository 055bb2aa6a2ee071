pub mod Examples
pub mod KeyTexts
pub mod PlainData
pub mod PlainForms
pub mod Printing
pub mod Visible
