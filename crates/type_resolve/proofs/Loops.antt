-- Members and cases, one after another: what is added so far, and what is made of those that are done.
use Rattle.std.proofs.Common.{◌≡◌, ℕ, zero, suc, ◌+◌, ◌<◌, ◌≤◌, arith, List, [], ◌∷◌, ◌++◌, drop, length, get_or, refl, sym, ap, subst, ◌∙◌, append_assoc}
use Rattle.std.proofs.lemmas.List.{append-nil, drop_more}
use Rattle.std.specs.Prelude.{Bool, true, false, Result}
use Rattle.type_trees.specs.declared.types.Member.{Member}
use Rattle.type_trees.specs.declared.types.Case.{Case}
use Rattle.type_trees.specs.Trees.{MemberHead, CaseHead, Tree, Members, no_members, no_cases}
use Rattle.type_trees.specs.View.{tree, member_tree, case_tree, members_tree, cases_tree}
use Rattle.type_trees.proofs.Views.{case_tree_is}
use Rattle.object_formats.specs.Objects.{MemberPart, CasePart}
use Rattle.type_object.specs.Pools.{Texts}
use Rattle.type_object.specs.declared.pool.PoolFault.{PoolFault}
use Rattle.type_object.specs.declared.pool.PoolFault.TheVariants as F
use Rattle.type_resolve.specs.Adding.{Adds, Halts}
use Rattle.type_resolve.specs.Objects.{texts, member_texts, case_texts, joined, identifier, member_parts, case_parts, member_part, case_part}
use Rattle.type_resolve.specs.declared.sides.MemberSides.{MemberSides}
use Rattle.type_resolve.specs.Views.{Parts, Seen, sides, member_sides, Stores}
use Rattle.type_resolve.proofs.Added.{adds_none, adds_then, halts_then, halts_front, halts_after}

module _ {R P : Type 0} (texts : R → List (List ℕ)) (parts : Bool → R → List P) where
  -- `rest` is still to come of `all`, and `made` stands for what is done
  pub record SoFar (old now : Texts) (all rest : R) (made : Parts P) : Type 0 where
    pub before : List (List ℕ)
    pub adds : Adds old before now
    pub texts_are : before ++ texts rest ≡ texts all
    pub minimal : made.0 ++ parts false rest ≡ parts false all
    pub complete : made.1 ++ parts true rest ≡ parts true all

  pub at_start : (old : Texts) (all : R) → SoFar old old all all ([], [])
  at_start old all = record { before = []; adds = adds_none old; texts_are = refl; minimal = refl; complete = refl }

  -- what the next one is
  pub record Next (rest after : R) (own : List (List ℕ)) (minimal complete : P) : Type 0 where
    pub texts_are : texts rest ≡ own ++ texts after
    pub minimal_is : parts false rest ≡ minimal ∷ parts false after
    pub complete_is : parts true rest ≡ complete ∷ parts true after

  one_on : (done whole rest after : List P) (p : P) (more : List P) → rest ≡ p ∷ after → more ≡ done ++ p ∷ [] → done ++ rest ≡ whole → more ++ after ≡ whole
  one_on done whole rest after p more is e h = ap (λ m. m ++ after) e ∙ append_assoc done (p ∷ []) after ∙ ap (λ m. done ++ m) (sym is) ∙ h

  pub goes_on : (old now new : Texts) (all rest after : R) (made more : Parts P) (own : List (List ℕ)) (minimal complete : P)
      → Next rest after own minimal complete → SoFar old now all rest made → Adds now own new → more.0 ≡ made.0 ++ minimal ∷ [] → more.1 ≡ made.1 ++ complete ∷ [] → SoFar old new all after more
  goes_on old now new all rest after made more own minimal complete next h adds first second = record {
    before = h.before ++ own;
    adds = adds_then old now new h.before own h.adds adds;
    texts_are = append_assoc h.before own (texts after) ∙ ap (λ ts. h.before ++ ts) (sym next.texts_are) ∙ h.texts_are;
    minimal = one_on made.0 (parts false all) (parts false rest) (parts false after) minimal more.0 next.minimal_is first h.minimal;
    complete = one_on made.1 (parts true all) (parts true rest) (parts true after) complete more.1 next.complete_is second h.complete;
  }

  -- the loop ends where a text is refused
  pub ends : (fault : PoolFault) (old now new : Texts) (all rest after : R) (made : Parts P) (own : List (List ℕ)) (minimal complete : P) → Next rest after own minimal complete → SoFar old now all rest made → Halts fault now own new → Halts fault old (texts all) new
  ends fault old now new all rest after made own minimal complete next h halts =
      subst (λ ts. Halts fault old ts new) (ap (λ ts. h.before ++ ts) (sym next.texts_are) ∙ h.texts_are) (halts_then fault old now new h.before (own ++ texts after) h.adds (halts_front fault now new own (texts after) halts))

  -- or where memory is wanting
  pub ends_free : (fault : PoolFault) (old now new : Texts) (all rest after : R) (made : Parts P) (own : List (List ℕ)) (minimal complete : P) → Next rest after own minimal complete → SoFar old now all rest made → fault ≡ F.OutOfMemory → Adds now own new → Halts fault old (texts all) new
  ends_free fault old now new all rest after made own minimal complete next h e adds = ends fault old now new all rest after made own minimal complete next h (halts_after fault now new own e adds)

  abbrev pub whole : R → Parts P
  whole all = (parts false all, parts true all)

  pub done : (old now : Texts) (all rest : R) (made : Parts P) → texts rest ≡ [] → parts false rest ≡ [] → parts true rest ≡ [] → SoFar old now all rest made → Adds old (texts all) now × (made ≡ whole all)
  done old now all rest made no_texts no_minimal no_complete h =
      let all_are : h.before ≡ texts all = sym (append-nil h.before) ∙ ap (λ ts. h.before ++ ts) (sym no_texts) ∙ h.texts_are in
      let first : made.0 ≡ parts false all = sym (append-nil made.0) ∙ ap (λ ps. made.0 ++ ps) (sym no_minimal) ∙ h.minimal in
      let second : made.1 ≡ parts true all = sym (append-nil made.1) ∙ ap (λ ps. made.1 ++ ps) (sym no_complete) ∙ h.complete in
      (subst (λ ts. Adds old ts now) all_are h.adds, ap (λ (m : List P). (m, made.1)) first ∙ ap (λ (m : List P). (parts false all, m)) second)

-- ---- the next member, and the next case

pub none_behind : {X : Type 0} (xs : List X) (i : ℕ) → length xs ≤ i → drop i xs ≡ []
none_behind [] zero le = refl
none_behind [] (suc i) le = refl
none_behind (x ∷ xs) zero le = absurd (omega arith)
none_behind (x ∷ xs) (suc i) le = none_behind xs i (omega arith)

abbrev pub needed : Members → List (List ℕ)
needed ms = joined (member_texts ms)

pub member_next : (ms : List Member) (i : ℕ) (m : Member) → i < length ms → m ≡ get_or ms i m
    → Next needed (λ c. member_parts c) (members_tree (drop i ms)) (members_tree (drop (i + 1) ms)) (texts (member_tree m).1) (member_part false (member_tree m).0 (identifier false (member_tree m).1)) (member_part true (member_tree m).0 (identifier true (member_tree m).1))
unfolding member_texts member_parts
member_next ms i m lt is =
    let t : members_tree (drop i ms) ≡ members_tree (m ∷ drop (i + 1) ms) = ap members_tree (drop_more ms i m lt ∙ ap (λ b. b ∷ drop (i + 1) ms) (sym is)) in
    record { texts_are = ap needed t; minimal_is = ap (member_parts false) t; complete_is = ap (member_parts true) t }

pub case_next : (cs : List Case) (i : ℕ) (m : Case) → i < length cs → m ≡ get_or cs i m
    → Next case_texts (λ c. case_parts c) (cases_tree (drop i cs)) (cases_tree (drop (i + 1) cs)) (texts (tree m.ty)) (case_part false (case_tree m).0 (identifier false (tree m.ty))) (case_part true (case_tree m).0 (identifier true (tree m.ty)))
unfolding case_texts case_parts
case_next cs i m lt is =
    let t : cases_tree (drop i cs) ≡ cases_tree (m ∷ drop (i + 1) cs) = ap cases_tree (drop_more cs i m lt ∙ ap (λ b. b ∷ drop (i + 1) cs) (sym is)) in
    let ty : (case_tree m).1 ≡ tree m.ty = ap (λ (x : CaseHead × Tree). x.1) (case_tree_is m) in
    record {
      texts_are = ap case_texts t ∙ ap (λ x. texts x ++ case_texts (cases_tree (drop (i + 1) cs))) ty;
      minimal_is = ap (case_parts false) t ∙ ap (λ x. case_part false (case_tree m).0 (identifier false x) ∷ case_parts false (cases_tree (drop (i + 1) cs))) ty;
      complete_is = ap (case_parts true) t ∙ ap (λ x. case_part true (case_tree m).0 (identifier true x) ∷ case_parts true (cases_tree (drop (i + 1) cs))) ty;
    }

module _ (old now : Texts) (ms : List Member) (i : ℕ) (made : Parts MemberPart) (over : drop i ms ≡ []) (h : SoFar needed (λ c. member_parts c) old now (members_tree ms) (members_tree (drop i ms)) made) where
  none_left : members_tree (drop i ms) ≡ no_members
  none_left = ap members_tree over

  pub members_done : Adds old (needed (members_tree ms)) now × (made ≡ (member_parts false (members_tree ms), member_parts true (members_tree ms)))
  unfolding member_texts member_parts
  members_done = done needed (λ c. member_parts c) old now (members_tree ms) (members_tree (drop i ms)) made (ap needed none_left) (ap (member_parts false) none_left) (ap (member_parts true) none_left) h

module _ (old now : Texts) (cs : List Case) (i : ℕ) (made : Parts CasePart) (over : drop i cs ≡ []) (h : SoFar case_texts (λ c. case_parts c) old now (cases_tree cs) (cases_tree (drop i cs)) made) where
  no_case_left : cases_tree (drop i cs) ≡ no_cases
  no_case_left = ap cases_tree over

  pub cases_done : Adds old (case_texts (cases_tree cs)) now × (made ≡ (case_parts false (cases_tree cs), case_parts true (cases_tree cs)))
  unfolding case_texts case_parts
  cases_done = done case_texts (λ c. case_parts c) old now (cases_tree cs) (cases_tree (drop i cs)) made (ap case_texts no_case_left) (ap (case_parts false) no_case_left) (ap (case_parts true) no_case_left) h

module _ (old now : Texts) (members : List Member) (i : ℕ) (m : Member) (lt : i < length members) (is : m ≡ get_or members i m) (made : Parts MemberPart) (h : SoFar needed (λ c. member_parts c) old now (members_tree members) (members_tree (drop i members)) made) where
  pub members_on : (new : Texts) (ty : Seen) (head : MemberHead) (more : Parts MemberPart) → head ≡ (member_tree m).0 → Adds now (texts (member_tree m).1) new → ty ≡ sides (member_tree m).1
      → more.0 ≡ made.0 ++ member_part false head ty.1 ∷ [] → more.1 ≡ made.1 ++ member_part true head ty.2 ∷ [] → SoFar needed (λ c. member_parts c) old new (members_tree members) (members_tree (drop (i + 1) members)) more
  members_on new ty head more here adds e first second =
      goes_on needed (λ c. member_parts c) old now new (members_tree members) (members_tree (drop i members)) (members_tree (drop (i + 1) members)) made more (texts (member_tree m).1) _ _ (member_next members i m lt is) h adds
      (first ∙ ap (λ (g : MemberHead). made.0 ++ member_part false g ty.1 ∷ []) here ∙ ap (λ (s : Seen). made.0 ++ member_part false (member_tree m).0 s.1 ∷ []) e)
      (second ∙ ap (λ (g : MemberHead). made.1 ++ member_part true g ty.2 ∷ []) here ∙ ap (λ (s : Seen). made.1 ++ member_part true (member_tree m).0 s.2 ∷ []) e)

  pub members_end : (fault : PoolFault) (new : Texts) → Halts fault now (texts (member_tree m).1) new → Halts fault old (needed (members_tree members)) new
  members_end fault new k = ends needed (λ c. member_parts c) fault old now new (members_tree members) (members_tree (drop i members)) (members_tree (drop (i + 1) members)) made (texts (member_tree m).1) _ _ (member_next members i m lt is) h k

  pub members_free : (fault : PoolFault) (new : Texts) → fault ≡ F.OutOfMemory → Adds now (texts (member_tree m).1) new → Halts fault old (needed (members_tree members)) new
  members_free fault new e k = ends_free needed (λ c. member_parts c) fault old now new (members_tree members) (members_tree (drop i members)) (members_tree (drop (i + 1) members)) made (texts (member_tree m).1) _ _ (member_next members i m lt is) h e k

pub members_start : (old : Texts) (members : List Member) (made : Parts MemberPart) → made ≡ ([], []) → SoFar needed (λ c. member_parts c) old old (members_tree members) (members_tree members) made
members_start old members made e = subst (λ m. SoFar needed (λ c. member_parts c) old old (members_tree members) (members_tree members) m) (sym e) (at_start needed (λ c. member_parts c) old (members_tree members))

module _ (old now : Texts) (cases : List Case) (i : ℕ) (m : Case) (lt : i < length cases) (is : m ≡ get_or cases i m) (made : Parts CasePart) (h : SoFar case_texts (λ c. case_parts c) old now (cases_tree cases) (cases_tree (drop i cases)) made) where
  pub cases_on : (new : Texts) (ty : Seen) (head : CaseHead) (more : Parts CasePart) → head ≡ (case_tree m).0 → Adds now (texts (tree m.ty)) new → ty ≡ sides (tree m.ty)
      → more.0 ≡ made.0 ++ case_part false head ty.1 ∷ [] → more.1 ≡ made.1 ++ case_part true head ty.2 ∷ [] → SoFar case_texts (λ c. case_parts c) old new (cases_tree cases) (cases_tree (drop (i + 1) cases)) more
  cases_on new ty head more here adds e first second =
      goes_on case_texts (λ c. case_parts c) old now new (cases_tree cases) (cases_tree (drop i cases)) (cases_tree (drop (i + 1) cases)) made more (texts (tree m.ty)) _ _ (case_next cases i m lt is) h adds
      (first ∙ ap (λ (g : CaseHead). made.0 ++ case_part false g ty.1 ∷ []) here ∙ ap (λ (s : Seen). made.0 ++ case_part false (case_tree m).0 s.1 ∷ []) e)
      (second ∙ ap (λ (g : CaseHead). made.1 ++ case_part true g ty.2 ∷ []) here ∙ ap (λ (s : Seen). made.1 ++ case_part true (case_tree m).0 s.2 ∷ []) e)

  pub cases_end : (fault : PoolFault) (new : Texts) → Halts fault now (texts (tree m.ty)) new → Halts fault old (case_texts (cases_tree cases)) new
  cases_end fault new k = ends case_texts (λ c. case_parts c) fault old now new (cases_tree cases) (cases_tree (drop i cases)) (cases_tree (drop (i + 1) cases)) made (texts (tree m.ty)) _ _ (case_next cases i m lt is) h k

  pub cases_free : (fault : PoolFault) (new : Texts) → fault ≡ F.OutOfMemory → Adds now (texts (tree m.ty)) new → Halts fault old (case_texts (cases_tree cases)) new
  cases_free fault new e k = ends_free case_texts (λ c. case_parts c) fault old now new (cases_tree cases) (cases_tree (drop i cases)) (cases_tree (drop (i + 1) cases)) made (texts (tree m.ty)) _ _ (case_next cases i m lt is) h e k

pub cases_start : (old : Texts) (cases : List Case) (made : Parts CasePart) → made ≡ ([], []) → SoFar case_texts (λ c. case_parts c) old old (cases_tree cases) (cases_tree cases) made
cases_start old cases made e = subst (λ m. SoFar case_texts (λ c. case_parts c) old old (cases_tree cases) (cases_tree cases) m) (sym e) (at_start case_texts (λ c. case_parts c) old (cases_tree cases))

-- the same of these members under another name
pub members_same : (r : Result MemberSides PoolFault) (old new : Texts) (some same : List Member) → some ≡ same → Stores member_sides r old (needed (members_tree some)) new (member_parts false (members_tree some), member_parts true (members_tree some))
    → Stores member_sides r old (needed (members_tree same)) new (member_parts false (members_tree same), member_parts true (members_tree same))
members_same r old new some same is h = subst (λ xs. Stores member_sides r old (needed (members_tree xs)) new (member_parts false (members_tree xs), member_parts true (members_tree xs))) is h
