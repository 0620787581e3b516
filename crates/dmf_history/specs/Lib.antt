pub mod Timeline
pub mod Delta
pub use Rattle.dmf_state.specs.NetworkState
pub use Rattle.dmf_state.specs.Edit
