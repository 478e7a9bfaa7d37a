pub mod CostClass
pub mod Instr
pub mod Opcodes
pub mod Register
pub mod Row
pub mod Word
