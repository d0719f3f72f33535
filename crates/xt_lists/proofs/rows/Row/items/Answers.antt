use Rattle.std.proofs.Common.{refl, ap, ◌∙◌, ◌++◌, take, drop, length, rules}
use Rattle.xt_lists.specs.Over.{written_over}
use Rattle.xt_lists.proofs.rows.Row.items.Goals as goal

pub returns : goal.returns
returns g c =
    let vec = c.self.inside.items in
    let name = c.as_mut_slice.result.ghost_name in
    ((refl {a = name}, λ w. ap (λ n. take n (w ++ drop (length w) vec.items)) vec.ok.0 ∙ ap (λ xs. written_over xs w) c.self.view_is), record { writes_back = tt; value = search rules })
