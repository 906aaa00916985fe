pub mod NameForms
pub mod Commands
pub mod Sessions
pub mod HostSessions
