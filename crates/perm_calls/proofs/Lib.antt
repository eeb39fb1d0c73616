pub mod Verdicts
pub mod ImageVerdicts
pub mod Accepted
pub mod Refusals
pub mod Answers
pub mod Seen
pub mod SeenDigits
