mod Common
pub mod Keyed
pub mod There
pub mod Chains
pub mod Unlinked
pub mod AllLines
pub mod Bits
pub mod Wires
pub mod Changes
pub mod Readers
pub mod Bodies
pub mod Turns
pub mod CallerLemmas
