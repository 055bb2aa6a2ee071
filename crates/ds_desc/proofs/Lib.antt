pub mod Examples
pub mod ExamplesOfDescs
