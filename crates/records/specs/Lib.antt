-- `Records` and `Keyed` have the definitions that the contracts cite; `Reading` and `KeyOrders` are laws.
pub mod Records
pub mod Keyed
pub mod Reading
pub mod KeyOrders
