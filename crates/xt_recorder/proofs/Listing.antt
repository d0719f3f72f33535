-- What is listed of an identifier, by its levels.
use Rattle.std.proofs.Common.{◌≡◌, refl, sym, ap, ◌∙◌, ℕ, suc, ◌-◌, Bool, true, false, cond, ◌≢◌, List, [], ◌∷◌, ◌||◌, arith}
use Rattle.std.specs.List.{list_any}
use Rattle.type_trees.specs.contracts.types.HashIdPartialEq.TheImpl as keys
use Rattle.type_trees.specs.declared.types.HashId.{HashId}
use Rattle.type_object.specs.Pools.{Texts, object_at}
use Rattle.type_object.specs.References.{is_among, note}
use Rattle.xt_recorder.specs.Recordings.{referred, each, listed_at}

pub among_is : (k : HashId) (ks : List HashId) → list_any (keys.eq-value.it k) ks ≡ is_among k ks
among_is k [] = refl
among_is k (l ∷ ks) = ap (λ (b : Bool). keys.eq-value.it k l || b) (among_is k ks)

no_level : (pool : Texts) (listed : List HashId) (id : HashId) → listed_at 0 pool listed id ≡ listed
unfolding listed_at
no_level pool listed id = refl

pub none_listed : (n : ℕ) (pool : Texts) (listed : List HashId) (id : HashId) → n ≡ 0 → listed ≡ listed_at n pool listed id
none_listed n pool listed id e = sym (no_level pool listed id) ∙ ap (λ (k : ℕ). listed_at k pool listed id) (sym e)

next_level : (n : ℕ) (pool : Texts) (listed : List HashId) (id : HashId) → listed_at (suc n) pool listed id ≡ cond (is_among id listed) listed (note (each (listed_at n pool) listed (referred (object_at id pool))) id)
unfolding listed_at
next_level n pool listed id = refl

pub levels : (n : ℕ) (pool : Texts) (listed : List HashId) (id : HashId) → n ≢ 0 → listed_at n pool listed id ≡ cond (is_among id listed) listed (note (each (listed_at (n - 1) pool) listed (referred (object_at id pool))) id)
levels n pool listed id some =
    let more : n ≡ suc (n - 1) = omega (arith, some) in
    ap (λ (k : ℕ). listed_at k pool listed id) more ∙ next_level (n - 1) pool listed id

pub there_already : (n : ℕ) (pool : Texts) (listed : List HashId) (id : HashId) → n ≢ 0 → is_among id listed ≡ true → listed ≡ listed_at n pool listed id
there_already n pool listed id some among = sym (levels n pool listed id some ∙ ap (λ (b : Bool). cond b listed (note (each (listed_at (n - 1) pool) listed (referred (object_at id pool))) id)) among)

pub listed_behind : (n : ℕ) (pool : Texts) (listed inner : List HashId) (id : HashId) → n ≢ 0 → is_among id listed ≡ false → inner ≡ each (listed_at (n - 1) pool) listed (referred (object_at id pool)) → note inner id ≡ listed_at n pool listed id
listed_behind n pool listed inner id some among is =
    ap (λ (l : List HashId). note l id) is ∙ sym (levels n pool listed id some ∙ ap (λ (b : Bool). cond b listed (note (each (listed_at (n - 1) pool) listed (referred (object_at id pool))) id)) among)
