use Rattle.std.proofs.Common.{length, ◌+◌, arith, ap}
use borrow.Rule.Slice.PartMut.{drop_put}
use Rattle.byte_fields.proofs.FieldLaws.{drop_more}
use Rattle.byte_fields.proofs.write.put.Goals as goal

pub returns-clause-rest : goal.returns-clause-rest
returns-clause-rest c k behind =
    let e = c.args.at + length c.args.bytes.now in
    let size = c.copy_from_slice.ensures.after in
    drop_more _ _ e k behind (drop_put c.args.at e c.args.out.now c.copy_from_slice.new.self (omega arith) (omega arith) (omega (arith, ap length size)))
