pub mod AskFacts
pub mod AskTurns
pub mod PhysicalFacts
pub mod TicketDesks
pub mod ZoneFacts
pub mod OutTickets
