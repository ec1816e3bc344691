-- How it is worked out. Nothing here has to be believed: that it comes to what is meant is proved.
-- Assumes nothing.
pub mod Key
pub mod Standing
