mod SignedAction
mod SignedValues
