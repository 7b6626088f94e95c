-- What the record of a closed floor is to contracts.
use Rattle.cn_handles.specs.declared.handles.floor_record.FloorRecord.TheInside.{Inside}
use Rattle.cn_handles.specs.Records.{RecordValue}

-- its words and its lists
abbrev pub record_of : Inside → RecordValue
record_of r = record { words = r.words; counts = r.counts.items; holders = r.holders.items }
