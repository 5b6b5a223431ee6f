-- What is put into a memtable fits a table's file, as what stood there does.
use Rattle.std.proofs.Common.{◌≡◌, List, [], ◌∷◌, Result, Ok, Err, OnOk, OnErr, sym, subst}
use Rattle.std.specs.List.{AllByRecursion}
use Rattle.std.specs.declared.cmp.Ordering.{Ordering}
use Rattle.std.specs.declared.cmp.Ordering.TheVariants.{Less, Equal, Greater}
use Rattle.lsm_below.specs.Entries.{Entry, entry_cmp}
use Rattle.lsm_below.specs.Sorted.{put, by_ordering}
use Rattle.lsm_tables.specs.Image.{Fits}
use Rattle.lsm_tables.specs.Cutting.{IsWritable}
use Rattle.lsm_memtable.specs.Memtables.{SeenMemtable, with_entry, with_entries}

each_put : (P : Entry → Type 0) (e : Entry) (es : List Entry) → P e → AllByRecursion P es → AllByRecursion P (put entry_cmp e es)
each_put P e [] here h = (here, tt)
each_put P e (x ∷ xs) here h = by_case (entry_cmp x e) (each_put P e xs here h.1)
  where
    by_case : (r : Ordering) → AllByRecursion P (put entry_cmp e xs) → AllByRecursion P (by_ordering r (x ∷ put entry_cmp e xs) (e ∷ xs) (e ∷ (x ∷ xs)))
    by_case Less rest = (h.0, rest)
    by_case Equal rest = (here, h.1)
    by_case Greater rest = (here, h)

pub fits_with_entry : (e : Entry) (t : SeenMemtable) → Fits e → AllByRecursion Fits t.entries → AllByRecursion Fits (with_entry e t).entries
fits_with_entry e t here h = each_put Fits e t.entries here h

pub fits_with_entries : (es : List Entry) (t : SeenMemtable) → AllByRecursion Fits es → AllByRecursion Fits t.entries → AllByRecursion Fits (with_entries es t).entries
fits_with_entries [] t here h = h
fits_with_entries (e ∷ es) t here h = fits_with_entries es (with_entry e t) here.1 (fits_with_entry e t here.0 h)

pub put_fits : {T E : Type 0} (r : Result T E) (e : Entry) (old new : SeenMemtable) → OnOk r (new ≡ with_entry e old) → OnErr r (new ≡ old) → Fits e → IsWritable old.entries → AllByRecursion Fits new.entries
put_fits (Ok x) e old new ok err here h = subst (λ t. AllByRecursion Fits t.entries) (sym ok) (fits_with_entry e old here h.each)
put_fits (Err x) e old new ok err here h = subst (λ t. AllByRecursion Fits t.entries) (sym err) h.each

pub put_all_fit : {T E : Type 0} (r : Result T E) (es : List Entry) (old new : SeenMemtable) → OnOk r (new ≡ with_entries es old) → OnErr r (new ≡ old) → AllByRecursion Fits es → IsWritable old.entries → AllByRecursion Fits new.entries
put_all_fit (Ok x) es old new ok err here h = subst (λ t. AllByRecursion Fits t.entries) (sym ok) (fits_with_entries es old here h.each)
put_all_fit (Err x) es old new ok err here h = subst (λ t. AllByRecursion Fits t.entries) (sym err) h.each
