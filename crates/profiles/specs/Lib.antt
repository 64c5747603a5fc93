pub mod Asked
pub mod Laws
pub mod Sheets
pub mod Even
pub mod Tables
pub mod Layers
pub mod ProfileLaws
