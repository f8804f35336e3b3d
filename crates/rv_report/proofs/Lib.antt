pub mod ActivityLaws
pub mod CountLaws
pub mod LineLaws
pub mod ShownLaws
pub mod TallyLaws
pub mod TenLaws
pub mod ExportLaws
