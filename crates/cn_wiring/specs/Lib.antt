pub mod Made
pub mod InsideDraft
pub mod Built
