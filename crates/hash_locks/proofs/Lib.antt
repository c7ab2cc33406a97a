mod SharingLaws
mod CodeLaws
mod OperationLaws
