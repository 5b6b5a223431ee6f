pub mod Noted
pub mod NotedReads
pub mod NotedFlushes
pub mod NotedClears
pub mod NotedWrites
