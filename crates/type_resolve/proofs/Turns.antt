-- Declarations, one after another: what stands before each, and what is added so far.
use Rattle.std.proofs.Common.{◌≡◌, ℕ, zero, suc, ◌+◌, ◌<◌, List, [], ◌∷◌, ◌++◌, map, take, drop, length, get_or, refl, sym, ap, subst, ◌∙◌, append_assoc, arith}
use Rattle.std.proofs.lemmas.Bool.{and_parts}
use Rattle.std.proofs.lemmas.List.{append-nil, take_more}
use Rattle.std.specs.Prelude.{true}
use Rattle.type_rules.specs.Valid.{type_fault}
use Rattle.idl_types.specs.State.{Declared}
use Rattle.idl_types.specs.Definitions.{defined, declared_from, declared, fits, all_fit_from, all_fit}
use Rattle.idl_types.specs.declared.declarations.Declaration.{Declaration}
use Rattle.idl_types.proofs.NameLoops.{types_push}
use Rattle.idl_tokens.specs.Classes.{Text}
use Rattle.type_trees.specs.Trees.{Tree}
use Rattle.type_object.specs.Pools.{Texts}
use Rattle.type_object.specs.declared.pool.PoolFault.{PoolFault}
use Rattle.type_object.specs.declared.pool.PoolFault.TheVariants as F
use Rattle.type_resolve.specs.declared.sides.Identifiers.{Identifiers}
use Rattle.type_resolve.specs.Adding.{Adds, Halts}
use Rattle.type_resolve.specs.Held.{AreHeld}
use Rattle.type_resolve.specs.Objects.{texts}
use Rattle.type_resolve.specs.Views.{sides, hashes_seen}
use Rattle.idl_types.specs.Kept.{is_clear, all_valid}
use Rattle.type_resolve.specs.Definitions.{types_texts, types_sides, AreNamed}
use Rattle.type_resolve.proofs.Added.{adds_none, adds_then, halts_then, halts_front, halts_free}
use Rattle.type_resolve.proofs.Kept.{added_are_held}

-- ---- what stands before a declaration

abbrev one_of : Declared → Declaration → Text × Tree
one_of ts d = (d.name, defined ts d.name d.definition)

take_next : (ds : List Declaration) (at : ℕ) (d : Declaration) → at < length ds → d ≡ get_or ds at d → take (at + 1) ds ≡ take at ds ++ d ∷ []
take_next ds at d lt is = take_more ds at d lt ∙ ap (λ y. take at ds ++ y ∷ []) (sym is)

-- a declaration is over those before it
pub declared_next : (ds : List Declaration) (at : ℕ) (d : Declaration) → at < length ds → d ≡ get_or ds at d → declared (take (at + 1) ds) ≡ declared (take at ds) ++ one_of (declared (take at ds)) d ∷ []
declared_next ds at d lt is = ap declared (take_next ds at d lt is) ∙ types_push (take at ds) d

abbrev types_behind : Declared → List Declaration → Declared
types_behind ts [] = []
types_behind ts (d ∷ ds) = one_of ts d ∷ types_behind (ts ++ one_of ts d ∷ []) ds

declared_parts : (ts : Declared) (ds : List Declaration) → declared_from ts ds ≡ ts ++ types_behind ts ds
declared_parts ts [] = sym (append-nil ts)
declared_parts ts (d ∷ ds) = declared_parts (ts ++ one_of ts d ∷ []) ds ∙ append_assoc ts (one_of ts d ∷ []) _

-- those of a beginning come first
pub record Before (ds : List Declaration) (at : ℕ) : Type 0 where
  pub behind : Declared
  pub parts : declared ds ≡ declared (take at ds) ++ behind

before_from : (ts : Declared) (ds : List Declaration) (at : ℕ) → declared_from ts ds ≡ declared_from ts (take at ds) ++ types_behind (declared_from ts (take at ds)) (drop at ds)
before_from ts [] zero = declared_parts ts []
before_from ts [] (suc at) = declared_parts ts []
before_from ts (d ∷ ds) zero = declared_parts ts (d ∷ ds)
before_from ts (d ∷ ds) (suc at) = before_from (ts ++ one_of ts d ∷ []) ds at

pub before : (ds : List Declaration) (at : ℕ) → Before ds at
before ds at = record { behind = _; parts = before_from [] ds at }

fits_from : (ts : Declared) (ds : List Declaration) (at : ℕ) (d : Declaration) → all_fit_from ts ds ≡ true → at < length ds → d ≡ get_or ds at d → fits (declared_from ts (take at ds)) d.definition ≡ true
fits_from ts [] at d good lt is = absurd (omega arith)
fits_from ts (x ∷ ds) zero d good lt is =
    let first : fits ts x.definition ≡ true = (and_parts (fits ts x.definition) (all_fit_from (ts ++ one_of ts x ∷ []) ds) good).0 in
    ap (λ (y : Declaration). fits ts y.definition) is ∙ first
fits_from ts (x ∷ ds) (suc at) d good lt is = fits_from (ts ++ one_of ts x ∷ []) ds at d (and_parts (fits ts x.definition) (all_fit_from (ts ++ one_of ts x ∷ []) ds) good).1 (omega arith) is

pub fits_next : (ds : List Declaration) (at : ℕ) (d : Declaration) → all_fit ds ≡ true → at < length ds → d ≡ get_or ds at d → fits (declared (take at ds)) d.definition ≡ true
fits_next ds at d good lt is = fits_from [] ds at d good lt is

valid_front : (a b : Declared) → all_valid (a ++ b) ≡ true → all_valid a ≡ true
valid_front [] b e = refl
valid_front (d ∷ a) b e =
    let both = and_parts (is_clear (type_fault d.1)) (all_valid (a ++ b)) e in
    rw (both.0, valid_front a b both.1) refl

pub valid_before : (ds : List Declaration) (at : ℕ) → all_valid (declared ds) ≡ true → all_valid (declared (take at ds)) ≡ true
valid_before ds at e = let b = before ds at in valid_front (declared (take at ds)) b.behind (subst (λ ts. all_valid ts ≡ true) b.parts e)

-- ---- lists of types

pub texts_append : (a b : Declared) → types_texts (a ++ b) ≡ types_texts a ++ types_texts b
texts_append [] b = refl
texts_append (d ∷ a) b = ap (λ us. texts d.1 ++ us) (texts_append a b) ∙ sym (append_assoc (texts d.1) (types_texts a) (types_texts b))

sides_append : (a : Declared) (s : Text × Tree) → types_sides (a ++ s ∷ []) ≡ types_sides a ++ sides s.1 ∷ []
sides_append [] s = refl
sides_append (d ∷ a) s = ap (λ us. sides d.1 ∷ us) (sides_append a s)

seen_append : (ids : List Identifiers) (i : Identifiers) → map hashes_seen (ids ++ i ∷ []) ≡ map hashes_seen ids ++ hashes_seen i ∷ []
seen_append [] i = refl
seen_append (x ∷ ids) i = ap (λ us. hashes_seen x ∷ us) (seen_append ids i)

-- ---- what is added so far

pub record AreMade (old now : Texts) (ts : Declared) (ids : List Identifiers) : Type 0 where
  pub adds : Adds old (types_texts ts) now
  pub named : AreNamed ts ids

pub none_made : (old : Texts) (ids : List Identifiers) → ids ≡ [] → AreMade old old [] ids
none_made old ids e = subst (AreMade old old []) (sym e) (record { adds = adds_none old; named = refl })

pub made_held : (old now : Texts) (ts : Declared) (ids : List Identifiers) → AreMade old now ts ids → AreHeld now (types_texts ts)
made_held old now ts ids h = (added_are_held old now (types_texts ts) h.adds).1

module _ (ds : List Declaration) (at : ℕ) (d : Declaration) (lt : at < length ds) (is : d ≡ get_or ds at d) (old now : Texts) (ids : List Identifiers) (h : AreMade old now (declared (take at ds)) ids) where
  abbrev here : Tree
  here = defined (declared (take at ds)) d.name d.definition

  next_texts : types_texts (declared (take (at + 1) ds)) ≡ types_texts (declared (take at ds)) ++ texts here
  next_texts = ap types_texts (declared_next ds at d lt is) ∙ texts_append (declared (take at ds)) (one_of (declared (take at ds)) d ∷ []) ∙ ap (λ us. types_texts (declared (take at ds)) ++ us) (append-nil (texts here))

  pub one_made : (new : Texts) (own : Identifiers) (more : List Identifiers) → Adds now (texts here) new → hashes_seen own ≡ sides here → more ≡ ids ++ own ∷ [] → AreMade old new (declared (take (at + 1) ds)) more
  one_made new own more adds named e = record {
    adds = subst (λ us. Adds old us new) (sym next_texts) (adds_then old now new (types_texts (declared (take at ds))) (texts here) h.adds adds);
    named =
        ap types_sides (declared_next ds at d lt is) ∙ sides_append (declared (take at ds)) (one_of (declared (take at ds)) d)
        ∙ ap (λ us. us ++ sides here ∷ []) h.named ∙ ap (λ s. map hashes_seen ids ++ s ∷ []) (sym named) ∙ sym (seen_append ids own) ∙ ap (map hashes_seen) (sym e);
  }

  all_texts : types_texts (declared ds) ≡ (types_texts (declared (take at ds)) ++ texts here) ++ types_texts (before ds (at + 1)).behind
  all_texts =
      let b = before ds (at + 1) in
      ap types_texts b.parts ∙ texts_append (declared (take (at + 1) ds)) b.behind ∙ ap (λ us. us ++ types_texts b.behind) next_texts

  -- a text of this type is refused
  pub one_halts : (fault : PoolFault) (new : Texts) → Halts fault now (texts here) new → Halts fault old (types_texts (declared ds)) new
  one_halts fault new k =
      subst (λ us. Halts fault old us new) (sym all_texts)
      (halts_front fault old new (types_texts (declared (take at ds)) ++ texts here) _ (halts_then fault old now new (types_texts (declared (take at ds))) (texts here) h.adds k))

  -- or memory is wanting behind it
  pub one_free : (fault : PoolFault) (new : Texts) → fault ≡ F.OutOfMemory → Adds now (texts here) new → Halts fault old (types_texts (declared ds)) new
  one_free fault new e adds =
      subst (λ us. Halts fault old us new) (sym all_texts)
      (halts_free fault old new (types_texts (declared (take at ds)) ++ texts here) _ e (adds_then old now new (types_texts (declared (take at ds))) (texts here) h.adds adds))
