pub mod Rehearsals
pub mod ColdStarts
pub mod WholeStarts
