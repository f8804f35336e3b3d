pub mod Requests
pub mod Reads
pub mod Steps
pub mod Texts
pub mod AnswerLaws
pub mod StepLaws
pub mod StepMapLaws
