mod LockLaws
mod OperationLaws
