-- What the code's judgement stands for.
pub mod View
