-- What public contracts cite.
pub mod Routing
pub mod Calls
pub mod NotPutAmong
pub mod NotRouted
pub mod Template
pub mod GroupHeader
pub mod TemplateOf
pub mod Retransmitted
pub mod StoredGroup
-- What the inside promises itself.
pub mod Walk
pub mod GroupLaws
