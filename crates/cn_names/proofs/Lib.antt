mod Common
pub mod Rising
pub mod Walking
