-- Between two atomic steps: what keeps the rule.
pub mod Spreads
pub mod Totals
pub mod Ledgers
pub mod Accounts
pub mod Bounds
pub mod Fresh
pub mod Histories
pub mod Kept
pub mod Enters
pub mod Steps
pub mod Sweeps
pub mod Openings
pub mod Loading
pub mod Sharing
pub mod Names
pub mod Missing
pub mod Overtaken
