-- Ticket K11: equal records, equal articles.
pub mod Articles
