pub mod DocumentLaws
pub mod Documents
pub mod JsonTexts
pub mod JsonTextLaws
pub mod Numbers
pub mod NumberLaws
pub mod ValueData
