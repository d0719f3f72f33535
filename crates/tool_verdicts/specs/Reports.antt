-- What the program gathers of findings (this profile's own).
use Rattle.std.specs.Prelude.{◌≡◌, ℕ, ◌||◌, List, [], ◌∷◌, ◌++◌}
use Rattle.type_trees.specs.Trees.{Tree}
use Rattle.type_trees.specs.View.{tree}
use Rattle.assignability.specs.Views.{verdict_view}
use Rattle.type_object.specs.Pools.{Texts}
use Rattle.idl_types.specs.State as idl_types
use Rattle.tool_types.specs.Coming.{ComeBack}
use Rattle.tool_types.specs.Declaring.{AreIdentified}
use Rattle.tool_verdicts.specs.Versions as spec
use Rattle.tool_verdicts.specs.Versions.{Finding, finding_line, any_breaks}
use Rattle.tool_verdicts.specs.declared.versions.changes.Change.{Change}
use Rattle.tool_verdicts.specs.declared.versions.changes.Change.TheVariants.{Backward, Forward, Gone, New}
use Rattle.tool_verdicts.specs.declared.versions.reports.Report.{Report}
use Rattle.tool_verdicts.specs.declared.versions.comparing.Version.{Version}
use Rattle.tool_verdicts.specs.declared.versions.lookup.VersionType.{VersionType}

abbrev pub change_view : Change → spec.Change
change_view (Backward verdict) = spec.backward (verdict_view verdict)
change_view (Forward verdict) = spec.forward (verdict_view verdict)
change_view Gone = spec.gone
change_view New = spec.new

-- the lines of findings
abbrev pub lines_of : List Finding → List ℕ
lines_of [] = []
lines_of (f ∷ fs) = finding_line f ++ lines_of fs

-- A report has these findings more.
pub record Reports (old new : Report) (fs : List Finding) : Type 0 where
  pub text : new.text ≡ old.text ++ lines_of fs
  pub breaks : new.breaks ≡ (old.breaks || any_breaks fs)

-- a type of a version
abbrev pub tree_of : VersionType → Tree
tree_of found = tree found.named.now.ty

abbrev pub version_view : Version → spec.Version
version_view v = record { number = v.number; types = idl_types.declared v.types }

-- The identifiers of a version's types stand beside them, and each comes back from the pool.
pub record IsVersion (pool : Texts) (v : Version) : Type 0 where
  pub identified : AreIdentified (idl_types.declared v.types) v.ids.now
  pub back : ComeBack pool (idl_types.declared v.types)
