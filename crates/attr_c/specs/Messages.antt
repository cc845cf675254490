-- What a code means, in words.
use Rattle.std.specs.Prelude.{ℕ, ℤ, int_lt, if◌then◌else◌, List, codes}
use Rattle.std.specs.Ordering.{int_eq}
use Rattle.attr_c.specs.declared.codes.TheConstants.{OK, MEMORY, BOUNDS, ATTRIBUTES, NO_TEXT, NO_READER, LOST, NO_DOCUMENT, FULL}
use Rattle.attr_c.specs.declared.codes.TheConstants.{COMMITS_SPENT, OPERATIONS_SPENT, SYNTAX, NO_FIELD, WRONG_TYPE, OUT_OF_RANGE}
use Rattle.attr_c.specs.declared.codes.TheConstants.{TOO_DEEP, NOT_JSON, NO_OPERATION, BAD_ID, BAD_VALUE, UNSUPPORTED, TOO_MANY_ITEMS}
use Rattle.attr_c.specs.declared.codes.TheConstants.{LINE_TOO_LONG, BAD_SAVE, OTHER_SAVE}

unfoldable pub call_message : ℤ → List ℕ
call_message code =
    if int_eq code OK then codes "no error"
    else (if int_eq code MEMORY then codes "out of memory"
    else (if int_eq code BOUNDS then codes "a size is out of bounds"
    else (if int_eq code ATTRIBUTES then codes "no attribute of the form name:kind:value"
    else (if int_eq code NO_TEXT then codes "the text is not UTF-8"
    else (if int_eq code NO_READER then codes "all readers are given away"
    else (if int_eq code LOST then codes "no such reader"
    else (if int_eq code NO_DOCUMENT then codes "the document is not there"
    else (if int_eq code FULL then codes "the store is full"
    else (if int_eq code COMMITS_SPENT then codes "no commit is left"
    else (if int_eq code OPERATIONS_SPENT then codes "no operation is left"
    else codes "unknown code"))))))))))

unfoldable pub query_message : ℤ → List ℕ
query_message code =
    if int_eq code SYNTAX then codes "the text asks for nothing"
    else (if int_eq code NO_FIELD then codes "a name is none of the attributes"
    else (if int_eq code WRONG_TYPE then codes "a value is of another type than its attribute"
    else (if int_eq code OUT_OF_RANGE then codes "a number is outside 64 signed bits, or a text is longer than 1,024 bytes"
    else (if int_eq code TOO_DEEP then codes "the query has more than 32 levels"
    else codes "unknown code"))))

unfoldable pub line_message : ℤ → List ℕ
line_message code =
    if int_eq code NOT_JSON then codes "the line is no JSON value"
    else (if int_eq code NO_OPERATION then codes "the line has not exactly one of put, update and remove"
    else (if int_eq code BAD_ID then codes "the id does not end with the number of a document"
    else (if int_eq code BAD_VALUE then codes "a field has not the form of its attribute"
    else (if int_eq code UNSUPPORTED then codes "the line asks for what its attribute has not"
    else (if int_eq code TOO_MANY_ITEMS then codes "a document would have more than 1,023 items"
    else (if int_eq code LINE_TOO_LONG then codes "the line has more than 16,777,216 bytes"
    else (if int_eq code BAD_SAVE then codes "the bytes are no save"
    else (if int_eq code OTHER_SAVE then codes "the save is of another kind or value type, or there are several attributes"
    else codes "unknown code"))))))))

unfoldable pub message_of : ℤ → List ℕ
message_of code =
    if int_lt code SYNTAX then call_message code else (if int_lt code NOT_JSON then query_message code else line_message code)
