pub mod Answering
mod Determined
mod RuledOut
