mod AsciiCuts
mod GeneratedFiles
mod GeneratedBlocks
mod GeneratedItems
mod GeneratedRules
mod GeneratedBase
