-- Each number of a node or record names one of the memory.
use Rattle.std.specs.Prelude.{ℕ, ◌<◌, length, IfSome, All}
use Rattle.ellen.specs.Types.{UpdateWord, Node, Leaf, Internal, Record, Ins, Del, EllenMem, Above, Resume, SearchLoc}
use Rattle.ellen.specs.Types.{Update, Child, IFlag, InsOnly, DFlag, HelpLoc, EllenLoc, Search, Help}
use Rattle.ellen.specs.Parts.{word_record, help_record, help_node}

-- the record that an update word names is below this number, if it names one
abbrev pub IsWordIn : ℕ → UpdateWord → Type 0
IsWordIn records u = IfSome (word_record u) (λ r. r < records)

abbrev pub IsResumeIn : ℕ → Resume → Type 0
IsResumeIn records resume = All (λ r. r < records) resume.stack

-- the numbers in a node are below these
abbrev pub IsNodeIn : ℕ → ℕ → Node → Type 0
IsNodeIn nodes records (Leaf k) = Unit {0}
IsNodeIn nodes records (Internal k u l r) = IsWordIn records u × (l < nodes) × (r < nodes)

abbrev pub IsRecordIn : ℕ → ℕ → Record → Type 0
IsRecordIn nodes records (Ins i) = (i.parent < nodes) × (i.leaf < nodes) × (i.new < nodes)
IsRecordIn nodes records (Del d) = (d.grandparent < nodes) × (d.parent < nodes) × (d.leaf < nodes)
    × IsWordIn records d.parent_update

abbrev pub IsAboveIn : ℕ → ℕ → Above → Type 0
IsAboveIn nodes records above = (above.node < nodes) × IsWordIn records above.update

abbrev pub IsSearchIn : ℕ → ℕ → SearchLoc → Type 0
IsSearchIn n m (Update above p) = IfSome above (IsAboveIn n m) × (p < n)
IsSearchIn n m (Child above p u) = IfSome above (IsAboveIn n m) × (p < n) × IsWordIn m u
IsSearchIn n m (IFlag p u l) = (p < n) × IsWordIn m u × (l < n)
IsSearchIn n m (InsOnly p l) = (p < n) × (l < n)
IsSearchIn n m (DFlag above p u l) = IsAboveIn n m above × (p < n) × IsWordIn m u × (l < n)

-- the record of a help place is below the one number, and the node that it holds beside it, if any, below the other
abbrev pub IsHelpIn : ℕ → ℕ → HelpLoc → Type 0
IsHelpIn n m at = (help_record at < m) × IfSome (help_node at) (λ o. o < n)

abbrev pub IsPlaceIn : ℕ → ℕ → EllenLoc → Type 0
IsPlaceIn n m (Search at) = IsSearchIn n m at
IsPlaceIn n m (Help at resume) = IsHelpIn n m at × IsResumeIn m resume

-- in a memory, which has the root
pub record IsInRange (memory : EllenMem) : Type 0 where
  pub root : 0 < length memory.nodes
  pub nodes : All (IsNodeIn (length memory.nodes) (length memory.records)) memory.nodes
  pub records : All (IsRecordIn (length memory.nodes) (length memory.records)) memory.records

abbrev pub IsPlaceInRange : EllenMem → EllenLoc → Type 0
IsPlaceInRange memory place = IsPlaceIn (length memory.nodes) (length memory.records) place
