pub mod FlowValue
pub mod Flows
pub mod Laws
pub mod Placed
