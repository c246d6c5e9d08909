mod RowsNotices
