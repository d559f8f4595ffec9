mod Ending
mod Exchanged
mod Opening
mod Repairing
