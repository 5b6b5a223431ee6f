pub mod Records
pub mod RecordReading
pub mod LogNames
pub mod Logs
pub mod Changes
