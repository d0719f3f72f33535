-- What `register` answers (own).
use Rattle.std.specs.Prelude.{◌≡◌, ◌≢◌, ℕ, List, None, Err}
use Rattle.type_trees.specs.declared.types.HashId.{HashId}
use Rattle.object_formats.specs.Tables.{object_of}
use Rattle.type_object.specs.Pools.{IsObject}
use Rattle.type_registry.specs.declared.kept.Kept.{Kept}
use Rattle.type_registry.specs.declared.kept.Kept.TheVariants as kept
use Rattle.type_registry.specs.declared.kept.RegisterFault.{RegisterFault}
use Rattle.type_registry.specs.declared.kept.RegisterFault.TheVariants as fault
use Rattle.type_registry.specs.declared.kept.Settled.{Settled}
use Rattle.type_registry.specs.declared.kept.Settled.TheVariants as settled
use Rattle.type_object.specs.Names.{named_by}
use Rattle.type_registry.specs.Found.{Found}
use Rattle.type_registry.specs.Passed.{PassView, IsFull, Learns, LearnsFull, known}

-- a finding of that identifier in that registry
abbrev pub IsOf : List ℕ → HashId → Found → Type 0
IsOf registry id f = (f.registry ≡ registry) × (f.id ≡ id)

abbrev pub IsSettled : {N : Type 0} → (List ℕ → List ℕ) → List ℕ → HashId → List ℕ → Settled N → Type 0
IsSettled name registry id octets (settled.Added f) = IsOf registry id f × (f.octets ≡ octets)
IsSettled name registry id octets (settled.Known f) = IsOf registry id f × (f.octets ≡ octets)
IsSettled name registry id octets (settled.Clash f) = IsOf registry id f × (f.octets ≢ octets)
IsSettled name registry id octets (settled.Full t) = (t.registry ≡ registry) × (t.id ≡ id) × IsFull name t

-- the octets are an object's, it is in the registry, and the pass knows it now
abbrev pub IsIn : List ℕ → HashId → List ℕ → PassView → PassView → Found → Type 0
IsIn registry id octets old new f = IsObject octets × IsOf registry id f × (f.octets ≡ octets) × Learns old new id octets

abbrev pub IsKept : {N : Type 0} → (List ℕ → List ℕ) → List ℕ → List ℕ → PassView → PassView → Kept N → Type 0
IsKept name registry octets old new (kept.Added f) = IsIn registry (named_by name octets) octets old new f × (known old (named_by name octets) ≡ None)
IsKept name registry octets old new (kept.Known f) = IsIn registry (named_by name octets) octets old new f

-- why the object of a text was not read
abbrev pub IsNoObject : {N : Type 0} → List ℕ → RegisterFault N → Type 0
IsNoObject octets (fault.NotAnObject f) = object_of octets ≡ Err f
IsNoObject octets (fault.Clash f) = ⊥
IsNoObject octets (fault.Full t) = ⊥
IsNoObject octets fault.OutOfMemory = Unit {0}

abbrev pub IsRefused : {N : Type 0} → (List ℕ → List ℕ) → List ℕ → List ℕ → PassView → PassView → RegisterFault N → Type 0
IsRefused name registry octets old new (fault.NotAnObject f) = (object_of octets ≡ Err f) × (new ≡ old)
IsRefused name registry octets old new (fault.Clash f) = IsObject octets × IsOf registry (named_by name octets) f × (f.octets ≢ octets) × (new ≡ old)
IsRefused name registry octets old new (fault.Full t) =
    IsObject octets × (t.registry ≡ registry) × (t.id ≡ named_by name octets) × IsFull name t × (known old (named_by name octets) ≡ None) × LearnsFull old new (named_by name octets) t.held
IsRefused name registry octets old new fault.OutOfMemory = new ≡ old
