mod Common
mod Naming
mod FilledSlots
