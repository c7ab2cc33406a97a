mod HookLaws
mod ListLaws
mod FoundLaws
mod NewestLaws
mod DenseLaws
mod LookLaws
mod FollowLaws
mod OrderRows
