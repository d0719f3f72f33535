-- The members of the writer's structure as they are drawn (this profile's own): each draw gives what is drawn and the state behind it.
use Rattle.std.specs.Prelude.{ℕ, zero, suc, ◌+◌, ◌==◌, Bool, true, false, if◌then◌else◌, List, [], ◌∷◌, ◌++◌}
use Rattle.xt_shapes.specs.declared.leaves.Ext.{Ext}
use Rattle.xt_shapes.specs.declared.leaves.Ext.TheVariants.{Final, Appendable, Mutable}
use Rattle.xt_shapes.specs.declared.leaves.Rep.{Rep}
use Rattle.xt_shapes.specs.declared.leaves.Rep.TheVariants.{Xcdr1, Xcdr2}
use Rattle.xt_shapes.specs.declared.leaves.Try.TheVariants.{Discard}
use Rattle.xt_vectors.specs.declared.plans.Plan.{Plan}
use Rattle.xt_vectors.specs.declared.plans.Sort.{Sort}
use Rattle.xt_vectors.specs.declared.plans.Sort.TheVariants.{Long, Octet, Text, Shorts, Literals, Pair}
use Rattle.xt_vectors.specs.Draws.{next, drawn}

abbrev pub ext_drawn : ℕ → Ext
ext_drawn s = if drawn 3 s == 0 then Final else (if drawn 3 s == 1 then Appendable else Mutable)

abbrev pub rep_drawn : ℕ → Rep
rep_drawn s = if drawn 2 s == 0 then Xcdr1 else Xcdr2

abbrev pub bound_drawn : ℕ → ℕ
bound_drawn s = 4 + drawn 5 s

-- the number of an enumeration's last literal, of 2 to 4 literals
abbrev pub last_drawn : ℕ → ℕ
last_drawn s = 1 + drawn 3 s

-- what a member holds, by a number below 6
abbrev pub sort_of : ℕ → ℕ → Sort × ℕ
sort_of t s =
    if t == 0 then (Long, s)
    else (if t == 1 then (Octet, s)
    else (if t == 2 then (Text (bound_drawn s), next s)
    else (if t == 3 then (Shorts (bound_drawn s), next s)
    else (if t == 4 then (Literals (last_drawn s), next s)
    else (Pair, s)))))

unfoldable pub sort_drawn : ℕ → Sort × ℕ
sort_drawn s = sort_of (drawn 6 s) (next s)

abbrev pub is_zero : ℕ → Bool
is_zero s = drawn 4 s == 0

-- an optional member has one draw more
abbrev pub plan_of : ℕ → Sort × ℕ → Plan × ℕ
plan_of id x =
    if is_zero x.1
    then (record { id = id; sort = x.0; tc = Discard; optional = true; must_understand = is_zero (next x.1) }, next (next x.1))
    else (record { id = id; sort = x.0; tc = Discard; optional = false; must_understand = false }, next x.1)

unfoldable pub plan_drawn : ℕ → ℕ → Plan × ℕ
plan_drawn id s = plan_of id (sort_drawn s)

-- the members with the ids from 0 up, so many
abbrev pub plans_drawn : ℕ → ℕ → List Plan × ℕ
plans_drawn zero s = ([], s)
plans_drawn (suc n) s = let ps = plans_drawn n s in let p = plan_drawn n ps.1 in (ps.0 ++ p.0 ∷ [], p.1)
