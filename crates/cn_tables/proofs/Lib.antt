mod Common
pub mod Flow
pub mod Conserve
pub mod PlanFlow
pub mod Tables
pub mod Arrivals
pub mod Levels
pub mod CallerLemmas
