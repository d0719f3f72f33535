use Rattle.std.proofs.Common.{◌≡◌, List, rules, subst}
use Rattle.pair_memo.specs.Entries.{Entry}
use Rattle.pair_memo.specs.Memos.{IsMemo}
use Rattle.pair_memo.proofs.Kept.{noted}
use Rattle.pair_memo.proofs.memo.Memo.note.Goals as goal

pub returns-clause-so : goal.returns-clause-so
returns-clause-so g c =
    let seen : c.args.self.now ≡ c.self.inside.entries.entries = search (rules, c.self.view_is) in
    λ q r pool h is. noted q r pool c.args.lefts.now c.args.rights.now (record { kind = c.args.kind; left = c.args.left.now; right = c.args.right.now }) c.args.state c.self.inside.entries.entries c.insert.new.self.entries c.in_ok-insert.ensures.entries c.in_ok-insert.ensures.unique (search rules, search rules)
    (subst (λ (l : List Entry). IsMemo q r pool c.args.lefts.now c.args.rights.now l) seen h) is
