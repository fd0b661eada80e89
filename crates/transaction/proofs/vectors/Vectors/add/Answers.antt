-- `transaction::vectors::Vectors::add` meets its contract.
use Rattle.std.proofs.Common.{◌≡◌, ◌-◌, length, drop, length-take, length-drop, refl, arith, rules}
use Rattle.transaction.proofs.Making.{holds-more}
use Rattle.transaction.proofs.vectors.Vectors.add.Goals as goal

pub returns : goal.returns
returns c =
    let v = c.args.self.now in
    let a = c.ascend-count.ensures in
    let w = v.within in
    let f1 : length v.rowsets ≡ 4096 = search rules in
    let f2 : length v.lengths ≡ 4096 = search rules in
    let f3 : length v.counts ≡ 4096 = search rules in
    let f4 : length v.held ≡ 4096 = search rules in
    (omega (arith, a.1), λ vs h. holds-more vs v _ c.args.rowset.0 _ _ (4096 - v.kept) c.args.rows.now c.ascend-count.new.out (omega arith) (omega arith) (omega arith) (omega arith) (omega arith) c.file_size-bytes.ensures.0 a.0 (omega (arith, a.1, c.ascend-count.auto.out, length-take (4096 - v.kept) (drop v.kept v.held), length-drop v.kept v.held)) refl refl refl refl refl refl h)
