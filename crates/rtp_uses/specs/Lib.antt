-- What public contracts cite.
pub mod Equality
pub mod Forwarding
pub mod PaddingPackets
pub mod Retransmission
pub mod Negotiating
pub mod Arriving
