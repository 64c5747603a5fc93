pub mod Words
pub mod Vocabulary
pub mod Numbers
pub mod Calls
pub mod Sheets
