-- the definitions, computed
pub mod Vectors
pub mod Agreement
-- the elements of a rank as a type
pub mod Lengths
pub mod Algebra
pub mod AlgebraLaws
pub mod OverBasis
-- rank m in rank m + 1
pub mod Joins
pub mod Blocks
pub mod LeftWords
pub mod BlockProducts
pub mod Embedding
pub mod Apart
pub mod Cycles
-- the trace
pub mod Trace
pub mod TraceCycles
pub mod Markov
pub mod Lowered
pub mod Laws
-- along maps of operations
pub mod TraceMaps
pub mod TraceCarry
pub mod TraceClosed
pub mod TraceModular
