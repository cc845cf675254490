pub mod TableSteps
