-- The names of drawn members and literals are names, and their hashes are apart.
use Rattle.std.proofs.Common.{◌≡◌, ℕ, zero, suc, ◌+◌, ◌<◌, ◌≤◌, ◌==◌, true, false, not, ◌&&◌, ◌||◌, List, [], ◌∷◌, map, Some, inl, inr, refl, sym, ap, ◌∙◌, if◌then◌else◌, arith}
use Rattle.std.specs.Prelude.{nat_eq}
use Rattle.std.specs.Fmt.{digits}
use Rattle.std.proofs.lemmas.Bool.{cases_Bool, eqb-true}
use Rattle.md5.specs.Md5.{block_words, rounds, compress, hash_after, digest_bytes, md5}
use Rattle.xt_shapes.specs.Lists.{has}
use Rattle.xt_shapes.specs.NodeRules.{distinct}
use Rattle.type_trees.specs.declared.types.Name.TheVariants.{Full}
use Rattle.type_trees.specs.Bridge.{name_number}
use Rattle.node_rules.specs.Names.{name_fits, scope_fits}
use Rattle.xt_vectors.specs.declared.plans.Plan.{Plan}
use Rattle.xt_vectors.specs.Types.{numbered}
use Rattle.xt_vectors.proofs.Planned.{Between, low_high}

unfoldable pub hashed : ℕ
unfolding block_words rounds compress hash_after digest_bytes md5 name_number digits
hashed = 0

unfoldable pub printed : ℕ
unfolding digits
printed = 0

-- ---- the hashes of m0 to m8

abbrev pub member_hash : ℕ → ℕ
member_hash id = name_number (Full (numbered 109 id))

hash_0 : member_hash 0 ≡ 3787445966
unfolding hashed
hash_0 = refl

hash_1 : member_hash 1 ≡ 1826782126
unfolding hashed
hash_1 = refl

hash_2 : member_hash 2 ≡ 2583229098
unfolding hashed
hash_2 = refl

hash_3 : member_hash 3 ≡ 2818013334
unfolding hashed
hash_3 = refl

hash_4 : member_hash 4 ≡ 3379522557
unfolding hashed
hash_4 = refl

hash_5 : member_hash 5 ≡ 4285341563
unfolding hashed
hash_5 = refl

hash_6 : member_hash 6 ≡ 289693750
unfolding hashed
hash_6 = refl

hash_7 : member_hash 7 ≡ 1334855940
unfolding hashed
hash_7 = refl

hash_8 : member_hash 8 ≡ 3262712728
unfolding hashed
hash_8 = refl

-- whose hash it is
abbrev number_of : ℕ → ℕ
number_of h = if h == 3787445966 then 0 else (if h == 1826782126 then 1 else (if h == 2583229098 then 2 else (if h == 2818013334 then 3 else (if h == 3379522557 then 4 else (if h == 4285341563 then 5 else (if h == 289693750 then 6 else (if h == 1334855940 then 7 else (8))))))))

told : (i : ℕ) → i < 9 → number_of (member_hash i) ≡ i
told zero lt = ap number_of hash_0
told (suc zero) lt = ap number_of hash_1
told (suc (suc zero)) lt = ap number_of hash_2
told (suc (suc (suc zero))) lt = ap number_of hash_3
told (suc (suc (suc (suc zero)))) lt = ap number_of hash_4
told (suc (suc (suc (suc (suc zero))))) lt = ap number_of hash_5
told (suc (suc (suc (suc (suc (suc zero)))))) lt = ap number_of hash_6
told (suc (suc (suc (suc (suc (suc (suc zero))))))) lt = ap number_of hash_7
told (suc (suc (suc (suc (suc (suc (suc (suc zero)))))))) lt = ap number_of hash_8
told (suc (suc (suc (suc (suc (suc (suc (suc (suc n))))))))) lt = absurd (omega arith)

pub hash_tells : (i j : ℕ) → i < 9 → j < 9 → member_hash i ≡ member_hash j → i ≡ j
hash_tells i j a b e = sym (told i a) ∙ ap number_of e ∙ told j b

-- ---- names

pub member_name : (id : ℕ) → id < 9 → name_fits (Full (numbered 109 id)) ≡ true
unfolding printed
member_name zero lt = refl
member_name (suc zero) lt = refl
member_name (suc (suc zero)) lt = refl
member_name (suc (suc (suc zero))) lt = refl
member_name (suc (suc (suc (suc zero)))) lt = refl
member_name (suc (suc (suc (suc (suc zero))))) lt = refl
member_name (suc (suc (suc (suc (suc (suc zero)))))) lt = refl
member_name (suc (suc (suc (suc (suc (suc (suc zero))))))) lt = refl
member_name (suc (suc (suc (suc (suc (suc (suc (suc zero)))))))) lt = refl
member_name (suc (suc (suc (suc (suc (suc (suc (suc (suc n))))))))) lt = absurd (omega arith)

pub enum_name : (id : ℕ) → id < 9 → scope_fits (Some (numbered 69 id)) ≡ true
unfolding printed
enum_name zero lt = refl
enum_name (suc zero) lt = refl
enum_name (suc (suc zero)) lt = refl
enum_name (suc (suc (suc zero))) lt = refl
enum_name (suc (suc (suc (suc zero)))) lt = refl
enum_name (suc (suc (suc (suc (suc zero))))) lt = refl
enum_name (suc (suc (suc (suc (suc (suc zero)))))) lt = refl
enum_name (suc (suc (suc (suc (suc (suc (suc zero))))))) lt = refl
enum_name (suc (suc (suc (suc (suc (suc (suc (suc zero)))))))) lt = refl
enum_name (suc (suc (suc (suc (suc (suc (suc (suc (suc n))))))))) lt = absurd (omega arith)

-- ---- numbers that differ where ids do

pub unequal : (a b : ℕ) → (a ≡ b → ⊥) → nat_eq a b ≡ false
unequal a b h = elim (cases_Bool (nat_eq a b)) [ inl y ↦ absurd (h (eqb-true a b y)) | inr n ↦ n ]

module _ (f : ℕ → ℕ) (tells : (i j : ℕ) → i < 9 → j < 9 → f i ≡ f j → i ≡ j) where
  abbrev pub each_of : List Plan → List ℕ
  each_of ps = map (λ (p : Plan). f p.id) ps

  not_again : (k low high : ℕ) (ps : List Plan) → k < low → high ≤ 9 → Between low high ps → has (nat_eq (f k)) (each_of ps) ≡ false
  not_again k low high [] lt le b = refl
  not_again k low high (p ∷ ps) lt le b =
      let most = low_high (p.id + 1) high ps b.2 in
      let differs : nat_eq (f k) (f p.id) ≡ false = unequal (f k) (f p.id) (λ e. let same : k ≡ p.id = tells k p.id (omega (arith, lt, le, most, b.0)) (omega (arith, le, most)) e in absurd (omega (arith, same, lt, b.0))) in
      ap (λ c. c || has (nat_eq (f k)) (each_of ps)) differs ∙ not_again k (p.id + 1) high ps (omega (arith, lt, b.0)) le b.2

  pub apart : (low high : ℕ) (ps : List Plan) → high ≤ 9 → Between low high ps → distinct nat_eq (each_of ps) ≡ true
  apart low high [] le b = refl
  apart low high (p ∷ ps) le b =
      ap (λ c. not c && distinct nat_eq (each_of ps)) (not_again p.id (p.id + 1) high ps (omega arith) le b.2) ∙ apart (p.id + 1) high ps le b.2
