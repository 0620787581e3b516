pub mod SolvedValue
