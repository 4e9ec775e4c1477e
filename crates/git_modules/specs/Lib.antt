-- The definitions of the public contracts.
pub mod ConfigFileBytes
pub mod ConfigFileFlaws
pub mod ConfigFileValues
pub mod ConfigFileHeaders
pub mod ConfigFileItems
pub mod ConfigFiles
pub mod ConfigFileLaws
pub mod Submodules
pub mod SubmoduleView
pub mod SubmoduleUrls
pub mod SubmoduleChecks
pub mod SubmoduleRisks
pub mod SubmoduleDefects
pub mod ResolveSteps
pub mod ResolveParents
pub mod Resolve
pub mod ResolveRoots
pub mod ResolveViews
pub mod ResolveLaws
-- Definitions that only the proofs of this crate use.
pub mod ConfigFilePieces
pub mod ConfigFileValuePieces
pub mod ConfigFileSteps
pub mod ConfigFileKeeping
pub mod SubmoduleInternal
