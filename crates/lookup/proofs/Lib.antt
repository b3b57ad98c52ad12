-- The laws of the lookup. For callers: Exactly (the places held, by counting), Look (an answer is a plain search), Counts (the live places are held, by counting), Table (the reading; places held, dead places; room).
-- Below them: Putting, Taking, Renaming and Making say what each change asks and does; Rising and Part are about lists and words; Needs, Dividing,
-- Belonging and Finding answer the needs of the code. Assumes nothing.
pub mod Belonging
pub mod Buckets
pub mod Cases
pub mod Counts
pub mod Dividing
pub mod Exactly
pub mod Finding
pub mod Look
pub mod Making
pub mod Needs
pub mod Part
pub mod Putting
pub mod Renaming
pub mod Rising
pub mod Table
pub mod Taking
