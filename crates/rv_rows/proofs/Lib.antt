pub mod IdLaws
pub mod RowLaws
pub mod FiledLaws
pub mod SlotLaws
pub mod RowSlots
pub mod FiledSlots
pub mod SortSlots
pub mod ExtentLaws
