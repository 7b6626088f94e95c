-- What a closed floor leaves.
use Rattle.std.specs.Prelude.{◌≡◌, ℕ, List}
use Rattle.cn_floor.specs.Carried.{WordsValue}
use Rattle.cn_floor.specs.Ends.{ListsHolders, QuietValue, counts_by_exit, words_after}
use Rattle.cn_handles.specs.declared.handles.floor_record.RecordList.{RecordList}
use Rattle.cn_handles.specs.declared.handles.floor_record.RecordList.TheVariants.{Counts, Holders}

-- the words, with which another floor may begin, how many left by each exit, and the clients by rising name
pub record RecordValue : Type 0 where
  pub words : WordsValue
  pub counts : List ℕ
  pub holders : List ℕ

-- the record of a closed floor
pub record IsRecordOfClosed (quiet : QuietValue) (r : RecordValue) : Type 0 where
  pub words : r.words ≡ words_after quiet
  pub counts : r.counts ≡ counts_by_exit quiet.start quiet.words
  pub holders : ListsHolders quiet.did.grants r.holders

-- one of its lists
abbrev pub list_of : RecordList → RecordValue → List ℕ
list_of Counts r = r.counts
list_of Holders r = r.holders
