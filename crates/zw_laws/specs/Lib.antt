pub mod FedHistories
pub mod Laws
