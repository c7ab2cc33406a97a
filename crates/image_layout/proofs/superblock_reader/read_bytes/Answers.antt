use Rattle.std.proofs.Common.{◌∙◌, sym, ap, ◌≡◌, Ok, Err, arith, [], ◌∷◌, nat_le}
use Rattle.std.proofs.lemmas.Bool.{leb-true}
use Rattle.blk_base.specs.declared.geometry.Super.{Super}
use Rattle.image_layout.specs.Superblock.{run_checks, identity_checks, size_checks, state_checks, room_checks, geometry_in, head_in, answer_after, super_of}
use Rattle.image_layout.specs.declared.fault.Field.TheVariants.{Blocks}
use Rattle.image_layout.specs.declared.fault.SuperFault.TheVariants.{BadField}
use Rattle.blk_base.specs.Regions.{needed_blocks}
use Rattle.image_layout.proofs.CheckLaws.{sizes_right, state_right, identity_fails, sizes_fail, state_fails, room_decides, same_error, passed}
use Rattle.image_layout.proofs.SpellingLaws.{spelled}
use Rattle.image_layout.proofs.superblock_reader.read_bytes.Goals as goal

pub returns-in_err-check_identity-clause-read : goal.returns-in_err-check_identity-clause-read
returns-in_err-check_identity-clause-read c =
    let fails : super_of c.args.bytes.now c.args.blocks ≡ Err c.in_err-check_identity.field-0.0 =
    identity_fails c.args.bytes.now c.args.blocks c.in_err-check_identity.field-0.0 (sym c.in_err-check_identity.ensures) in
    same_error c.from_residual.result c.in_err-check_identity.field-0.0 c.from_residual.ensures.1 ∙ sym fails

pub returns-in_err-check_sizes-clause-read : goal.returns-in_err-check_sizes-clause-read
returns-in_err-check_sizes-clause-read c =
    let identity : run_checks (identity_checks c.args.bytes.now) ≡ Ok tt = sym c.in_ok-check_identity.ensures in
    let e = c.in_err-check_sizes.field-0.0 in
    let sizes : run_checks (size_checks (geometry_in c.args.bytes.now)) ≡ Err e =
    ap (λ (h : Super). run_checks (size_checks h.geometry)) (sym c.read_head-head.ensures) ∙ sym c.in_err-check_sizes.ensures in
    let fails : super_of c.args.bytes.now c.args.blocks ≡ Err e = sizes_fail c.args.bytes.now c.args.blocks e identity sizes in
    same_error c.from_residual-in_err-check_sizes.result e c.from_residual-in_err-check_sizes.ensures.1 ∙ sym fails

pub returns-in_err-check_state-clause-read : goal.returns-in_err-check_state-clause-read
returns-in_err-check_state-clause-read c =
    let identity : run_checks (identity_checks c.args.bytes.now) ≡ Ok tt = sym c.in_ok-check_identity.ensures in
    let sizes : run_checks (size_checks (geometry_in c.args.bytes.now)) ≡ Ok tt =
    ap (λ (h : Super). run_checks (size_checks h.geometry)) (sym c.read_head-head.ensures) ∙ sym c.in_ok-check_sizes.ensures in
    let e = c.in_err-check_state.field-0.0 in
    let state : run_checks (state_checks c.args.bytes.now) ≡ Err e = sym c.in_err-check_state.ensures in
    let fails : super_of c.args.bytes.now c.args.blocks ≡ Err e = state_fails c.args.bytes.now c.args.blocks e identity sizes state in
    same_error c.from_residual-in_err-check_state.result e c.from_residual-in_err-check_state.ensures.1 ∙ sym fails

pub of-requires : goal.of-requires
of-requires c =
    let passes : run_checks (size_checks c.read_head-head.result.geometry) ≡ Ok tt = sym c.in_ok-check_sizes.ensures in
    sizes_right c.read_head-head.result.geometry passes

pub returns-in_err-check-clause-read : goal.returns-in_err-check-clause-read
returns-in_err-check-clause-read c =
    let identity : run_checks (identity_checks c.args.bytes.now) ≡ Ok tt = sym c.in_ok-check_identity.ensures in
    let sizes : run_checks (size_checks (geometry_in c.args.bytes.now)) ≡ Ok tt =
    ap (λ (h : Super). run_checks (size_checks h.geometry)) (sym c.read_head-head.ensures) ∙ sym c.in_ok-check_sizes.ensures in
    let state : run_checks (state_checks c.args.bytes.now) ≡ Ok tt = sym c.in_ok-check_state.ensures in
    let e = c.in_err-check.field-0.0 in
    let geometry : geometry_in c.args.bytes.now ≡ c.of.result.geometry =
    ap (λ (h : Super). h.geometry) (sym c.read_head-head.ensures) ∙ sym c.of.ensures in
    let room : run_checks (room_checks (geometry_in c.args.bytes.now) c.args.blocks) ≡ Err e =
    ap (λ n. run_checks ((nat_le n c.args.blocks, BadField Blocks) ∷ [])) (ap (λ g. needed_blocks g) geometry ∙ sym c.needed-needed.ensures) ∙ sym c.in_err-check.ensures in
    let fails : super_of c.args.bytes.now c.args.blocks ≡ Err e =
    room_decides c.args.bytes.now c.args.blocks identity sizes state ∙ ap (λ r. answer_after r (head_in c.args.bytes.now)) room in
    same_error c.from_residual-in_err-check.result e c.from_residual-in_err-check.ensures.1 ∙ sym fails

pub returns-clause-read : goal.returns-clause-read
returns-clause-read c =
    let identity : run_checks (identity_checks c.args.bytes.now) ≡ Ok tt = sym c.in_ok-check_identity.ensures in
    let sizes : run_checks (size_checks (geometry_in c.args.bytes.now)) ≡ Ok tt =
    ap (λ (h : Super). run_checks (size_checks h.geometry)) (sym c.read_head-head.ensures) ∙ sym c.in_ok-check_sizes.ensures in
    let state : run_checks (state_checks c.args.bytes.now) ≡ Ok tt = sym c.in_ok-check_state.ensures in
    let geometry : geometry_in c.args.bytes.now ≡ c.of.result.geometry =
    ap (λ (h : Super). h.geometry) (sym c.read_head-head.ensures) ∙ sym c.of.ensures in
    let room : run_checks (room_checks (geometry_in c.args.bytes.now) c.args.blocks) ≡ Ok tt =
    ap (λ n. run_checks ((nat_le n c.args.blocks, BadField Blocks) ∷ [])) (ap (λ g. needed_blocks g) geometry ∙ sym c.needed-needed.ensures) ∙ sym c.in_ok-check.ensures in
    ap (λ h. Ok h) c.read_head-head.ensures
    ∙ sym (room_decides c.args.bytes.now c.args.blocks identity sizes state ∙ ap (λ r. answer_after r (head_in c.args.bytes.now)) room)

pub returns-clause-room : goal.returns-clause-room
returns-clause-room c =
    let room : run_checks ((nat_le c.needed-needed.result c.args.blocks, BadField Blocks) ∷ []) ≡ Ok tt = sym c.in_ok-check.ensures in
    let enough = leb-true c.needed-needed.result c.args.blocks (passed _ _ _ room).0 in
    rw (← c.of.ensures, ← c.needed-needed.ensures) enough

pub returns-clause-start : goal.returns-clause-start
returns-clause-start c =
    let state_passes : run_checks (state_checks c.args.bytes.now) ≡ Ok tt = sym c.in_ok-check_state.ensures in
    rw (c.read_head-head.ensures) (state_right c.args.bytes.now state_passes).start

pub returns-clause-spelled : goal.returns-clause-spelled
returns-clause-spelled c =
    let passes : run_checks (identity_checks c.args.bytes.now) ≡ Ok tt = sym c.in_ok-check_identity.ensures in
    let state_passes : run_checks (state_checks c.args.bytes.now) ≡ Ok tt = sym c.in_ok-check_state.ensures in
    rw (c.read_head-head.ensures) (spelled c.args.bytes.now c.requires (λ k. omega (arith, c.type_inv.bytes k)) passes (state_right c.args.bytes.now state_passes))
